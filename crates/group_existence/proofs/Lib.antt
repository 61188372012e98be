pub mod Least
pub mod Singles
pub mod Late
pub mod Chains
pub mod Numbers
pub mod Judged
