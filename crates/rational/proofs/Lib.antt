pub mod Rationals
pub mod Facts
pub mod Orders
