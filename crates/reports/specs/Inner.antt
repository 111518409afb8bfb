-- What the functions below the entry points keep and leave: invariants of the code, which a reader of 01 need not believe.
pub mod Turns
pub mod Runs
pub mod Rows
pub mod Due
