pub mod Named
pub mod Leaves
pub mod Cuts
pub mod Checks
pub mod Laws
