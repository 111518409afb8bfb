-- Laws of the entry points.
pub mod Finishing
pub mod Answering
pub mod Demand
pub mod Counts
