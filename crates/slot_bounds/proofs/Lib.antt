-- Laws of block bounds by slot.
pub mod Bounds
