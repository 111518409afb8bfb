-- Laws of rows and runs that belong to no one function.
pub mod RowLaws
pub mod TurnLaws
pub mod RunLaws
