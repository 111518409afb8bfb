-- Laws of block bounds that belong to no one function.
pub mod Ahead
pub mod BlockBounds
