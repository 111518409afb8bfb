-- Laws of writing a list.
pub mod Values
pub mod Tails
pub mod Blocks
pub mod Listing
pub mod Tops
