pub mod Pops
pub mod Pushes
pub mod Fetches
