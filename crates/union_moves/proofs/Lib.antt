-- Laws of a union's scorers over their slots: what a move of one leaves of all, and each loop.
pub mod Seats
pub mod Slots
pub mod BlockBounds
pub mod Lowest
pub mod Alignments
