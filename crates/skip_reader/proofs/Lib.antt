-- Laws of skip readers and of loaded blocks that belong to no one function.
pub mod AcceptedList
pub mod Readers
pub mod Blocks
