pub mod Choices
pub mod Stamps
