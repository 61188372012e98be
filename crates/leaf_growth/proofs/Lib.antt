pub mod Amounts
pub mod Growing
mod Lines
pub mod Trees
