pub mod Named
pub mod Parts
pub mod Lists
pub mod Says
pub mod CutRows
pub mod Accepts
pub mod Laws
pub mod Worked
