-- Laws of contents.
pub mod Either
pub mod Places
pub mod Heads
pub mod Refused
