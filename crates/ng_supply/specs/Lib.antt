pub mod Runs
pub mod Metas
