pub mod Numbers
pub mod Forms
pub mod Scripts
pub mod Faults
pub mod Reads
pub mod Lines
pub mod PartScript
