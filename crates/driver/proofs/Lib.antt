-- Laws of the loop that drives the machine.
pub mod Driving
