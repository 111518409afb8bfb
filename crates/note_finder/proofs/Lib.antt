-- The refusals of a finder, its notes, and its answers; the laws are over `ranking`'s contract alone.
pub mod Refusals
pub mod Notes
pub mod Finding
