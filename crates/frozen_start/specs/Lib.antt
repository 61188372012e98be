pub mod Starts
pub mod Rests
pub mod Laws
pub mod Held
pub mod Worked
