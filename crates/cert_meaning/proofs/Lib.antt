pub mod Rows
pub mod Columns
mod Leaves
mod Echelons
mod Cuts
mod Places
mod Whole
mod Once
mod Agreeing
mod Whichever
mod Examples
mod Cutting
mod Reducing
mod Plain
