-- What the contracts of `compression` cite.
pub mod Documents
pub mod Inner
