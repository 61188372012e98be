pub mod Within
pub mod Listed
pub mod Nodes
pub mod Numbering
pub mod Sides
