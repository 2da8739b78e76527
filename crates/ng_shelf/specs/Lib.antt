pub mod FreeMetas
pub mod Queue
pub mod Parents
pub mod Carriers
pub mod Shape
pub mod Stock
pub mod Stocked
