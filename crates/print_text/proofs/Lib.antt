-- Laws of the text.
pub mod Putting
pub mod Decimals
pub mod InSteps
pub mod Lines
