pub mod Ask
pub mod Policy
pub mod Musl
pub mod Bounce
pub mod Coarse
