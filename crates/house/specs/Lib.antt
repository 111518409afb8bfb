-- The house form of note files.
pub mod House
pub mod Form
pub mod Reads
pub mod Inner
