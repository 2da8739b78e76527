pub mod Trials
pub mod Groups
pub mod Pages
pub mod Endings
pub mod Partings
pub mod Race
pub mod Writing
pub mod Bare
