pub mod Integers
pub mod Rings
pub mod Order
pub mod Ordered
pub mod Claims
pub mod Sums
pub mod Divisors
pub mod Lowest
