-- Laws of a window.
pub mod Known
pub mod Gathering
pub mod Opening
pub mod Summing
