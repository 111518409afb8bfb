-- Laws of a union's run: how it begins, and its turns in a row.
pub mod Runs
pub mod Begins
