-- What a reader must believe of runs, from the bottom: scores and rules, decoded lists, the plain scan, a scorer's moves, the three routes, all modes.
pub mod Score
pub mod F32
pub mod Report
pub mod Rule
pub mod Postings
pub mod Plain
pub mod Cursor
pub mod Ordering
pub mod Scorer
pub mod Route
pub mod Single
pub mod Union
pub mod Intersection
pub mod Skipping
pub mod Inner
