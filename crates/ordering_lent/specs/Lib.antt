-- What the contracts of `ordering_lent` cite.
pub mod Inner
