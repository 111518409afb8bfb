-- The single scan: it agrees with the plain scan, ends, and never turns back.
pub mod Agrees
pub mod Ends
pub mod Onward
