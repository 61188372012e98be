pub mod Bounding
pub mod Checking
