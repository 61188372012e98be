pub mod Sums
pub mod Fractions
pub mod Laws
