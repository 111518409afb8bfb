-- Laws of slots: a scorer's moves, its list bound and what is kept of its block bounds, seen from all of them.
pub mod Slots
pub mod Tops
pub mod Kept
pub mod Floats
