-- What the contracts of `codec` cite.
pub mod Bits
pub mod VInt
pub mod VInts
pub mod Inner
