pub mod Bills
pub mod Meanings
pub mod Validity
pub mod Accepts
pub mod Existence
