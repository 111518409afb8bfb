-- What the contracts of `pieces` cite.
pub mod Bytes
pub mod Inner
