pub mod Books
pub mod Serving
pub mod Room
pub mod Serial
pub mod Works
pub mod Crews
pub mod Caps
