-- What the contracts of `rulecheck` cite: which rules row 11 lets through.
pub mod Right
