-- What the contracts of `skip_reader` cite.
pub mod Inner
