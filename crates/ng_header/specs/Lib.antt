pub mod Bytes
pub mod Cycle
pub mod Header
pub mod Reading
pub mod Tail
