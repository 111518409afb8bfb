-- Laws of the limits that belong to no one function.
pub mod LimitBits
