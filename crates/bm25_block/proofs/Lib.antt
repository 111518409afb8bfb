-- Laws of a block's scores that belong to no one function.
pub mod BlockScores
