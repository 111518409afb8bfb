-- What the functions leave: a reader of 01 need not believe it.
pub mod Putting
