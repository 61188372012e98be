pub mod Lists
pub mod Put
pub mod Adding
pub mod Ways
pub mod CostSums
pub mod Shapes
pub mod Built
mod Nettings
mod Transport
