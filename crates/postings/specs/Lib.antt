-- What the contracts of `postings` cite.
pub mod Seek
pub mod Inner
