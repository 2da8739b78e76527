pub mod Census
pub mod Counts
