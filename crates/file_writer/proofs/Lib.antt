-- Laws of writing a whole file.
pub mod Filing
