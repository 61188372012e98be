pub mod Lines
pub mod Sets
pub mod Over
pub mod Steps
pub mod Laws
