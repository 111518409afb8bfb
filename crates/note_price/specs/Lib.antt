-- What the contracts of `note_price` cite.
pub mod Inner
