pub mod Maxima
pub mod Grouping
pub mod Heights
pub mod Joins
pub mod Plainness
pub mod Parts
pub mod Sums
