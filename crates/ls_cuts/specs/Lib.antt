pub mod Rows
pub mod Points
pub mod Steps
pub mod Laws
