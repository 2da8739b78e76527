pub mod Pushes
pub mod Bits
pub mod Motion
pub mod Fetches
pub mod Trading
pub mod PopCounts
pub mod Leaving
