-- Laws of outcomes.
pub mod ByNumber
