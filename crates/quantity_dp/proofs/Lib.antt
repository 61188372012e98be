pub mod Queues
pub mod Entries
pub mod Least
pub mod Rows
