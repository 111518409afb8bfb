-- What theorems and the runs' code keep: laws of lists and rules, places of cursors and scorers. A reader of 01 need not believe them.
pub mod Rules
pub mod Lists
pub mod Cursors
pub mod Orders
pub mod Singles
pub mod Unions
pub mod Intersections
pub mod Loads
