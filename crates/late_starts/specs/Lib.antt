pub mod OnTime
pub mod Charges
pub mod Choices
pub mod Pricing
pub mod Rows
pub mod Steps
