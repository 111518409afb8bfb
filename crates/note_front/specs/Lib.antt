-- What the contracts of `note_front` cite.
pub mod Inner
