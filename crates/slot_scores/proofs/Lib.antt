-- Scores by slot are the route's, and those that are kept, seen from all slots.
pub mod Scores
pub mod Made
