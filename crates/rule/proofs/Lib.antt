-- Laws of rules that belong to no one function.
pub mod Insertion
pub mod Following
