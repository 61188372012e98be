pub mod Summary
pub mod Draws
pub mod Generated
pub mod Totals
