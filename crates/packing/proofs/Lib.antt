-- Laws that belong to no one function.
pub mod Packs
pub mod Lanes
pub mod Widths
pub mod Worked
