-- The union: pivots, scorers left behind, each kind of turn; it agrees with the plain scan, ends, and never turns back.
pub mod Pivot
pub mod Lag
pub mod Landed
pub mod State
pub mod TooLow
pub mod Missed
pub mod Hit
pub mod Agrees
pub mod Safe
pub mod Ends
pub mod Onward
