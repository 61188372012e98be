mod Pairs
mod Stretches
mod Ceilings
mod Unique
