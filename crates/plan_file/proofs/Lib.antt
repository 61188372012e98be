pub mod Cells
pub mod Fields
pub mod Places
pub mod Fronts
pub mod Written
pub mod Lengths
pub mod Meanings
