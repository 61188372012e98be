pub mod Taken
pub mod Lines
mod Echelons
pub mod Own
mod Making
mod Adding
pub mod Says
mod Whole
mod One
