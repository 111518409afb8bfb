-- Laws of a block's pair, and that its bound lies below no score of the block.
pub mod FreqCode
pub mod Numbers
pub mod Highest
pub mod Relative
pub mod Rising
pub mod Sums
pub mod Covers
pub mod BlockCovers
pub mod Worked
