-- What the contracts of `best_notes` and of what stands on it cite.
pub mod Best
pub mod Matches
pub mod Inner
