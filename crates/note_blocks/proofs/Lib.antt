-- Laws of a list's blocks as they are read.
pub mod TailBlocks
pub mod Tails
