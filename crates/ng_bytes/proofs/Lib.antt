pub mod Around
pub mod Changes
pub mod Bytes
pub mod Sure
pub mod Known
