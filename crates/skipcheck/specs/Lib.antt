-- What the contracts of `skipcheck` cite.
pub mod Inner
