pub mod Pegs
pub mod Sums
pub mod Texts
