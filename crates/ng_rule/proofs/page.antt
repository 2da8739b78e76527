pub mod Note
pub mod RunLeaves
pub mod Area
pub mod Learn
pub mod Build
pub mod Index
pub mod Zero
