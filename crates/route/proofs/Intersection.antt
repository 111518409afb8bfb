-- The intersection: a candidate, a window, the query; it agrees with the plain scan, ends, and never turns back.
pub mod Candidate
pub mod Window
pub mod Query
pub mod Agrees
pub mod Ends
pub mod Onward
