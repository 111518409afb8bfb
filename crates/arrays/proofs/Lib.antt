-- Laws of loops over arrays.
pub mod Order
pub mod Every
pub mod Filling
