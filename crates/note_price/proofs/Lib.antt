-- Laws of the price of contents.
pub mod Pricing
