-- What the contracts of `slot_pivot` cite.
pub mod Inner
