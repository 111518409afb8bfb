-- What the contracts of `bm25` cite.
pub mod Score
pub mod Scoring
pub mod Limits
pub mod Bound
pub mod Inner
