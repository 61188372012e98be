mod Items
mod LateLots
mod ChainPlans
mod Bounds
mod Priced
mod AlikeLevels
pub mod AlikeLots
mod Alike
mod Once
pub mod Starting
mod Found
mod Limits
mod QuantityLots
pub mod Placed
