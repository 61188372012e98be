pub mod Ranges
pub mod Walk
pub mod Adding
pub mod Totals
pub mod Timing
pub mod Rows
