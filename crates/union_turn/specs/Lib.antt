-- What the contracts of `union_turn` cite.
pub mod Inner
