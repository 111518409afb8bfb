-- What the contracts of `reports` cite, and those of the runs that report.
pub mod Rows
pub mod Inner
