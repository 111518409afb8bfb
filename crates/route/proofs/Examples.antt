-- Routes worked out: the small file, the blocks that are loaded, and where rounding shows.
pub mod File
pub mod Loads
pub mod Unstepped
