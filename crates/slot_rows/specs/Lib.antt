-- What the contracts of `slot_rows` cite.
pub mod Inner
