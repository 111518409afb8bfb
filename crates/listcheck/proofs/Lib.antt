-- What the tests of one list find, and the order of what is found.
pub mod Covers
pub mod Judged
pub mod ListOrder
