-- What the contracts of `block_cover` cite.
pub mod Inner
