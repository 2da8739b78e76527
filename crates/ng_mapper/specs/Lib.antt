pub mod FirstFit
pub mod Holes
pub mod InOrder
pub mod Mapping
pub mod Runs
