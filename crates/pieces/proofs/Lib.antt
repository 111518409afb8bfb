-- Laws that belong to no one function.
pub mod Writes
pub mod Standing
pub mod Puts
pub mod TwoPuts
pub mod Words
pub mod Worked
