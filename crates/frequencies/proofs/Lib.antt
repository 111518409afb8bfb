-- Laws of frequencies that belong to no one function.
pub mod Counts
pub mod Worked
