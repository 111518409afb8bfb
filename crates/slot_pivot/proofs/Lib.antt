-- Laws of scorers in slots that belong to no one function.
pub mod Terms
