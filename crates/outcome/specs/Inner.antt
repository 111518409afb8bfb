-- What the functions below the entry points keep and leave: invariants of the code, which a reader of 01 need not believe.
pub mod Finished
pub mod Lower
