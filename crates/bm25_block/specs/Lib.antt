-- What the contracts of `bm25_block` cite.
pub mod Inner
