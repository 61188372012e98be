pub mod Faults
pub mod Reader
pub mod Values
pub mod Heads
pub mod Laws
pub mod Claims
