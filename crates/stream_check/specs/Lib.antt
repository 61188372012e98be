pub mod Faults
pub mod Passes
pub mod Streams
pub mod Heads
pub mod Rows
pub mod Nodes
