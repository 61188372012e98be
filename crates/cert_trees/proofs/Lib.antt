pub mod Left
pub mod Walk
mod Counting
mod Places
mod Plans
