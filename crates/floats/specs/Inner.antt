-- What the functions below the entry points keep and leave: invariants of the code, which a reader of 01 need not believe.
pub mod Steps
pub mod Maximum
pub mod Sign
