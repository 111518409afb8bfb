-- What the contracts of `block_look` cite.
pub mod Inner
