pub mod Verbs
pub mod Apps
pub mod Texts
pub mod Lists
pub mod Statuses
pub mod Words
