pub mod Refusals
pub mod Fitting
pub mod Looking
pub mod Moving
pub mod Resizing
pub mod Steps
pub mod Aligning
