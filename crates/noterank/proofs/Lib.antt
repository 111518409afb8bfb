-- Laws of the interface: numbers, and answers as numbers; the finder; a file written.
pub mod Numbers
pub mod Writing
pub mod Finder
