pub mod Chains
pub mod Numbers
pub mod Lists
pub mod Tables
pub mod States
pub mod Costs
pub mod Worked
pub mod Stocks
