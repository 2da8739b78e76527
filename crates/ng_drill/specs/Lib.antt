pub mod Caps
pub mod Desks
pub mod Lines
pub mod States
pub mod Steps
pub mod Transcripts
