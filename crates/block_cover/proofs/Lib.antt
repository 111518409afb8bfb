-- Laws of a bound and a block's scores that belong to no one function.
pub mod BoundTests
