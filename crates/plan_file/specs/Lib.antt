pub mod Records
pub mod Faults
pub mod Numbers
pub mod Texts
pub mod Written
pub mod Laws
