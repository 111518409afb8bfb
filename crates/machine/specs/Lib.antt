-- What the contracts of `machine` cite.
pub mod Inner
