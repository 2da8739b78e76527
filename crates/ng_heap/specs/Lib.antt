pub mod At
pub mod Causes
pub mod Freeing
pub mod Keeps
pub mod Making
pub mod Trying
