pub mod Class
pub mod Slot
pub mod Place
pub mod Mask
