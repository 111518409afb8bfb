-- What pricing leaves.
pub mod Prices
