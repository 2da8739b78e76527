pub mod Puts
pub mod Inspects
pub mod Judging
pub mod Contents
pub mod Located
pub mod Besides
