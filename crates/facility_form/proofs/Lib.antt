pub mod Overlaps
mod Pricing
