mod Plans
mod Choices
mod Example
pub mod Numbering
mod Entries
mod Combining
pub mod Common
mod Objective
mod Priced
mod Parts
mod Saying
pub mod Naming
pub mod Growing
pub mod Rising
mod Smallness
pub mod Closing
pub mod Listing
pub mod Making
