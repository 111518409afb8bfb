-- Laws of the scorers in their slots and of their order.
pub mod Parts
pub mod Seats
pub mod Sorting
