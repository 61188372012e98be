pub mod Within
pub mod Plunging
