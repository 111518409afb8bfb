-- Laws of the walk over a block.
pub mod Seeking
pub mod BlockTurns
pub mod Walking
