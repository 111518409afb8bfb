-- The table's rule.
pub mod Rising
