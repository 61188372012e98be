pub mod Capped
pub mod Answers
pub mod Laws
pub mod Texts
pub mod Whole
