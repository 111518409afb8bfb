-- What the loops leave, and how a list is offered to a rule: what a reader of 02 need not believe.
pub mod Kept
pub mod Offered
