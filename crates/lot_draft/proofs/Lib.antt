pub mod Members
pub mod Scans
pub mod Apart
pub mod Faults
pub mod Limits
pub mod Numbered
