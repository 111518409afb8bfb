-- The order of what the tests of a file find.
pub mod FileOrder
