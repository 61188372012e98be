pub mod Ls
pub mod Nets
pub mod Prices
