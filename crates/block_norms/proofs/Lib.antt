-- Laws of a block's documents and their codes that belong to no one function.
pub mod AtMost
pub mod CodesFound
