-- What the contracts of `posting_tests` cite.
pub mod Inner
