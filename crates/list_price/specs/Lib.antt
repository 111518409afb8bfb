-- What the contracts of `list_price` cite.
pub mod Inner
