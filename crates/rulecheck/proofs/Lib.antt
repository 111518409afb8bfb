-- Laws of right rules that belong to no one function.
pub mod Finiteness
pub mod Scripts
pub mod RightRules
