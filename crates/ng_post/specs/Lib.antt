pub mod Letters
pub mod Box
pub mod Doors
pub mod Opened
pub mod Opening
pub mod Ends
pub mod Ending
