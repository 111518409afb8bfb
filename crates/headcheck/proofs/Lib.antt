-- What the tests of the entries find.
pub mod Entries
