-- What the contracts of `rule` cite: the rules of 01 as values.
pub mod Rules
pub mod Inner
