-- Laws of a turn that belong to no one function.
pub mod Turning
