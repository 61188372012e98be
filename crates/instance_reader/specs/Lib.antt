pub mod Document
pub mod Reading
pub mod Tables
pub mod Model
pub mod Written
pub mod Laws
