pub mod Groups
pub mod Numbers
pub mod Levels
pub mod Apart
pub mod Rows
pub mod Laws
pub mod Prices
pub mod Floors
