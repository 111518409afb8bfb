-- Laws of the bytes before the lists.
pub mod Entries
pub mod Fronts
pub mod HouseFront
