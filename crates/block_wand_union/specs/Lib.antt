-- What the contracts of `block_wand_union` cite.
pub mod Inner
