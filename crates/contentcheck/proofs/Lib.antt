-- What the tests of contents find, the order of what they find, and the norm codes that are read.
pub mod Numbers
pub mod Rows
pub mod Order
