-- Laws of f32 that belong to no one function.
pub mod Tests
pub mod Value
pub mod Sum
pub mod Steps
pub mod Grid
pub mod Digits
pub mod Order
pub mod Range
pub mod Number
pub mod Step
pub mod Stepped
pub mod Pattern
pub mod PatternOrder
pub mod Threshold
pub mod Exact
pub mod MaximumLaws
pub mod Worked
