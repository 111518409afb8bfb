-- What the finder's contract cites.
pub mod Found
