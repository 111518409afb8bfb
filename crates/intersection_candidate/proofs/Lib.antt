-- Laws of the candidates.
pub mod Trying
pub mod Finding
