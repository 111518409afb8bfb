-- Laws that belong to no one function.
pub mod BitFields
pub mod OneVInt
pub mod VIntRow
pub mod Worked
