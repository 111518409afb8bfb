-- What the contracts of `list_writer` cite.
pub mod Inner
