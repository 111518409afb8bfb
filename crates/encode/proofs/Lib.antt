-- Laws that belong to no one function.
pub mod WholeVInt
pub mod ShortVInts
pub mod VIntRows
pub mod FieldBytes
pub mod SkipEntries
pub mod Differing
pub mod Worked
