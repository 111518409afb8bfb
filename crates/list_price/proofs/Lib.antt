-- Laws of pricing a list.
pub mod Loads
pub mod Looks
pub mod Split
pub mod Blocks
pub mod Pricing
