-- What the contracts of `intersection_stage` cite.
pub mod Inner
