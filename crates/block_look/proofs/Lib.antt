-- Laws of a full block's look.
pub mod Joins
pub mod Steps
pub mod Judged
pub mod Answers
