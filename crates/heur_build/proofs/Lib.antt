pub mod NetDemands
pub mod Covers
