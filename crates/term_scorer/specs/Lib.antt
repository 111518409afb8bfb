-- What the contracts of `term_scorer` cite.
pub mod Inner
