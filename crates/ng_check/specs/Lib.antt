pub mod Answers
pub mod Cells
pub mod Checks
pub mod Queries
pub mod Readings
