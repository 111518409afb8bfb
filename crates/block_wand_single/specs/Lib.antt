-- What the contracts of `block_wand_single` cite.
pub mod Inner
