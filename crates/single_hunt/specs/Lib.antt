-- What the contracts of `single_hunt` cite.
pub mod Inner
