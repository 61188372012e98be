pub mod Lots
pub mod Laws
pub mod Limits
pub mod Window
pub mod Table
