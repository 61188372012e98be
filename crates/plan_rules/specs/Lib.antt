pub mod Cells
pub mod Held
pub mod Order
pub mod CellRules
pub mod Broken
pub mod Rows
pub mod Texts
pub mod Laws
