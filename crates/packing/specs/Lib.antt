-- What the contracts of `packing` cite.
pub mod Packing
pub mod Width
pub mod Inner
