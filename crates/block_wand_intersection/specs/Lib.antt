-- What the contracts of the intersection's run cite.
pub mod Inner
