-- Laws of a run as it begins.
pub mod Queries
pub mod Beginning
