-- What the contracts of `bitpacker` cite.
pub mod Packed
pub mod Inner
