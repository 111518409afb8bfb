-- What the contracts of `ordering` cite.
pub mod Inner
