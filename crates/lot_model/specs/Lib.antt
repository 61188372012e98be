pub mod Meaning
pub mod Valid
pub mod Drafted
pub mod Views
pub mod Held
pub mod Laws
