pub mod Classes
pub mod Slots
pub mod Places
pub mod Masks
pub mod Fills
