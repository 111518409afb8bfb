-- The theorem over the table of cases, and the small file by other definitions.
pub mod Cases
pub mod Worked
pub mod Notes
