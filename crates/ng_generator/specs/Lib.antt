pub mod Generated
pub mod Lists
