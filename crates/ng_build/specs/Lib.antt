pub mod Cells
pub mod Drafts
pub mod Areas
pub mod Runs
pub mod Nestings
pub mod Written
