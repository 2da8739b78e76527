pub mod Counts
pub mod Digits
pub mod Kinds
pub mod Room
pub mod Summary
