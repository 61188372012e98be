pub mod Spans
pub mod Ranges
pub mod Paths
pub mod Trees
pub mod Laws
