-- Laws that belong to no one function.
pub mod Differences
pub mod Worked
