pub mod geometry
pub mod hand
pub mod entry
pub mod group
pub mod page
pub mod lock
