-- Laws of a union's turn: at a pivot, past blocks too low, and where a run stands in the tables.
pub mod OnPivots
pub mod Steps
pub mod Standing
