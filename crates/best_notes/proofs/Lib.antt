-- Laws of the order and of the first k in it; the loops that keep them; what best k reports of any list, and the examples.
pub mod Notes
pub mod Order
pub mod Placing
pub mod Gathering
pub mod Reported
pub mod Matches
pub mod Worked
