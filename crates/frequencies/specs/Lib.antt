-- What the contracts of `frequencies` cite.
pub mod Frequencies
pub mod Inner
