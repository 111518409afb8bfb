-- What the contracts of `block_norms` cite.
pub mod Inner
