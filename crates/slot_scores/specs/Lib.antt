-- What the contracts of `slot_scores` cite.
pub mod Inner
