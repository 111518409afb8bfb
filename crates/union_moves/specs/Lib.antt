-- What the contracts of `union_moves` cite.
pub mod Inner
