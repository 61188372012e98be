pub mod Greatest
pub mod Starts
pub mod Nets
pub mod LargestLots
pub mod Tables
