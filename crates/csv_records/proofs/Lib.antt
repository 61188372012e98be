pub mod Reached
pub mod Numbers
pub mod Plain
pub mod ReadBack
pub mod SameFields
pub mod Fronts
pub mod Names
pub mod Rows
