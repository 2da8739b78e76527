pub mod Book
pub mod Live
pub mod Steps
