-- Laws of the single run's slot and of its hunt.
pub mod Scorers
pub mod Hunting
