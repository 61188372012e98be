pub mod Figures
pub mod Parts
pub mod Numbers
pub mod Full
pub mod Padding
pub mod Widths
pub mod Tables
pub mod Laws
