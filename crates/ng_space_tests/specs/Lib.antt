pub mod Trials
pub mod Race
