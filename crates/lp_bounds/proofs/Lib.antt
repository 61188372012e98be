mod Naming
pub mod Counting
mod BoundRows
mod Growing
pub mod Writing
mod Points
pub mod Refusals
mod Found
mod Denominators
pub mod BasePoints
mod Plans
mod Saying
