pub mod Rounding
pub mod Merging
