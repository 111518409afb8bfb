-- Laws of the tests of a block's postings.
pub mod Rows
pub mod Lanes
