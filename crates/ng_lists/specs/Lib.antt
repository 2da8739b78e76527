pub mod Arrays
pub mod Place
pub mod Rings
