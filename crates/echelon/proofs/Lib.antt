pub mod Nets
pub mod Singles
pub mod Orders
pub mod Explosions
pub mod Wholes
pub mod Balances
pub mod Marks
