-- Facts of norms and scores that belong to no one function.
pub mod Bounds
pub mod Nearest
pub mod Numbers
pub mod WeightLaws
pub mod Worked
