-- What the contracts of `query` cite.
pub mod Inner
