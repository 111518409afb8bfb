-- A full block's pair of codes.
pub mod Pair
