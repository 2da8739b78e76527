pub mod Groups
pub mod Rings
pub mod Metas
pub mod Runs
pub mod Usage
pub mod Carriers
pub mod Standing
