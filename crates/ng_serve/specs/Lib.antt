pub mod Reads
pub mod Groups
pub mod Choices
pub mod Takes
