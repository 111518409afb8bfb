-- Laws of the single run by turns.
pub mod Going
