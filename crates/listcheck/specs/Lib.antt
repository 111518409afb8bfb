-- What the tests of one list answer; the table itself is `notefile`'s.
pub mod Inner
