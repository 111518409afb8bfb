-- Laws of what is printed.
pub mod Scores
pub mod Rendered
pub mod Worked
