-- Laws of the plain scan that belong to no one function.
pub mod Sums
pub mod Slots
pub mod Taking
pub mod Beginning
pub mod Scanning
pub mod Ending
