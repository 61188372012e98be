pub mod NextBlocks
pub mod Items
pub mod Floors
mod Alone
mod Taken
mod Certified
mod NoRoom
mod Lengths
mod Making
mod Proving
