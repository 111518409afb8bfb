-- What the C interface promises.
pub mod Interface
pub mod Inner
