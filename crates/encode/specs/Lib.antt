-- What the contracts of `encode` cite.
pub mod ShortVInt
pub mod Fields
pub mod SkipEntry
pub mod Differences
pub mod Inner
