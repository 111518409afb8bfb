-- What the contracts of `driver` cite.
pub mod Inner
