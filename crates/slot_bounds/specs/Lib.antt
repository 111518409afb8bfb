-- What the contracts of `slot_bounds` cite.
pub mod Inner
