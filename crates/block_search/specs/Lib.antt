-- What the contracts of `block_search` cite.
pub mod Search
pub mod Inner
