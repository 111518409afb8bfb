-- What the functions below the entry points answer: invariants of the code, which a reader of the interface need not believe.
pub mod Calls
