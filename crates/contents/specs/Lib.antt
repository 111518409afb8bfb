-- What a note file is written from, and the table's conditions tried on it.
pub mod Contents
pub mod Refusal
pub mod Inner
