pub mod Statuses
pub mod Inputs
pub mod Causes
pub mod Closed
pub mod Opened
pub mod Drill
pub mod Jobs
pub mod Tool
