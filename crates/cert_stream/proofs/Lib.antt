pub mod Steps
pub mod Pieces
pub mod Filling
pub mod Bodies
pub mod Starts
pub mod Opening
pub mod Taken
