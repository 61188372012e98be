pub mod Joins
pub mod Maxima
pub mod Sums
pub mod Shares
pub mod Stands
pub mod Columns
