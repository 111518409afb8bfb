-- Laws of the intersection's run that belong to no one function.
pub mod Going
pub mod Beginning
