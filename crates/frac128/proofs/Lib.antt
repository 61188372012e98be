pub mod Products
pub mod Small
pub mod Shared
pub mod Sums
pub mod Multiples
pub mod Inverses
pub mod Signed
pub mod Orders
pub mod Equality
mod Texts
pub mod Halves
pub mod Wholes
pub mod Ratios
mod Reductions
pub mod LeastCommon
