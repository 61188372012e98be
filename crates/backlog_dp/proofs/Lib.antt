pub mod Stretches
pub mod Starts
pub mod Serving
pub mod Firsts
pub mod Testing
