pub mod MustStart
pub mod Lots
pub mod Rows
pub mod Steps
