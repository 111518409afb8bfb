-- Laws of a slice of scorers: what is untouched and what each turn keeps, as lists.
pub mod Untouched
pub mod Turning
