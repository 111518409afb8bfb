-- Laws of the machine that belong to no one function.
pub mod Embeds
pub mod Nearing
pub mod Going
pub mod Resting
