-- Laws of the note file that belong to no one function.
pub mod Worked
pub mod Headers
pub mod Scores
pub mod Entries
pub mod SkipEntries
pub mod Decoded
pub mod NarrowBlocks
pub mod FullBlocks
pub mod Pairs
pub mod Order
pub mod Accepted
pub mod ListLaws
