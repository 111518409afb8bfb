-- What the contracts of `union_pivot` cite.
pub mod Inner
