pub mod Grammar
pub mod Choices
pub mod Words
pub mod Meant
pub mod Plain
pub mod Laws
