-- Laws of the writer.
pub mod Answering
