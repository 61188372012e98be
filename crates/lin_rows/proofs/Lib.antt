pub mod Terms
pub mod Holding
pub mod Columns
pub mod Cells
pub mod Coefficients
pub mod Ranks
pub mod Below
mod Combined
mod Objective
mod Bounding
mod Pointing
mod Small
mod Places
mod Same
