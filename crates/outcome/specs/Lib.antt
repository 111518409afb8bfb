-- What the contracts of `outcome` cite.
pub mod Refusals
pub mod Outcomes
pub mod Inner
