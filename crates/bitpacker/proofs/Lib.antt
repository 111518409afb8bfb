-- Laws that belong to no one function.
pub mod Lanes
pub mod Rows
pub mod Worked
