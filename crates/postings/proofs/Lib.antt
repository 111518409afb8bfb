-- Laws of one list's postings that belong to no one function.
pub mod Answers
pub mod Moves
