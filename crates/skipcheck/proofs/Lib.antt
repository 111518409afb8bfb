-- What the test of a list's skip entries finds.
pub mod SkipTests
