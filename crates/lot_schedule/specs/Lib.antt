pub mod Slots
pub mod Orders
pub mod Lots
pub mod Faults
pub mod Runs
pub mod Records
pub mod Texts
pub mod Laws
