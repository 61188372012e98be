pub mod Members
pub mod Rows
pub mod Paths
pub mod Kept
pub mod Settling
pub mod Existing
pub mod Deciding
