-- Laws of the scorers on a pivot: their scores, and what their step leaves of all.
pub mod Advances
pub mod Unmoved
