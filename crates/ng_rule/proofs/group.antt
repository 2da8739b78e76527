pub mod Births
pub mod But
pub mod Publish
pub mod Nestle
pub mod Retire
pub mod Unnest
pub mod Take
