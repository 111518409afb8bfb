-- What the writer of note files promises.
pub mod Writes
