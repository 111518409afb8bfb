-- What the contracts of `posting_bounds` cite.
pub mod Inner
