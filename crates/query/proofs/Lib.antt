-- Laws of slots as a run begins with them.
pub mod Opening
