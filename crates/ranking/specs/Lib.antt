-- What the public contracts cite: a run's answer, and demand 3 over the rows of two runs.
pub mod Answers
pub mod Demand
pub mod Inner
