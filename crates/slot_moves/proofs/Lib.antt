-- Laws of a row's moves.
pub mod Moves
