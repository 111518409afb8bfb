-- A row and the place made of it are one.
pub mod Rows
