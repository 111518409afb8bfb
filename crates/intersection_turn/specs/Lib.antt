-- What the contracts of `intersection_turn` cite.
pub mod Inner
