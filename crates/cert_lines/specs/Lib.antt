pub mod Shapes
pub mod Text
pub mod Limits
pub mod Head
pub mod Line
pub mod Words
pub mod Forms
pub mod Laws
