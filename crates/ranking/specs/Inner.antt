-- What the runs below the entry points leave: invariants of the code, which a reader of 01 need not believe.
pub mod Runs
