pub mod Path
pub mod Steps
pub mod Bounds
pub mod Solved
