-- What the contracts of `single_walk` cite.
pub mod Inner
