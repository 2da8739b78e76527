pub mod Contents
pub mod Scribbles
pub mod Steps
