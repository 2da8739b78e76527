pub mod Cells
pub mod Flags
pub mod Place
