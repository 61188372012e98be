pub mod Named
pub mod Bad
pub mod Places
pub mod Cells
pub mod Fronts
pub mod Filled
pub mod Meanings
pub mod Existing
