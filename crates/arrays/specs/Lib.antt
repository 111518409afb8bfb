-- What contracts over lent arrays cite.
pub mod Every
pub mod Inner
