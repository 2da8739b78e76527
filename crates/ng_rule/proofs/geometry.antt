pub mod Lists
pub mod Bits
pub mod Strides
pub mod Nesting
pub mod Facts
pub mod Frames
pub mod Parts
pub mod Readings
