pub mod Plans
pub mod Readings
pub mod Rules
pub mod Runs
