pub mod Readings
pub mod Fields
pub mod Changes
pub mod Freed
pub mod Looks
pub mod Walks
pub mod Candidates
pub mod Puts
