pub mod Faults
pub mod Raw
pub mod Refusals
pub mod Meaning
