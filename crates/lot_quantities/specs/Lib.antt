pub mod Columns
pub mod Tables
pub mod Numbers
pub mod Faults
pub mod Texts
pub mod Completed
pub mod Laws
