pub mod Keys
pub mod Lists
pub mod Meanings
pub mod Written
pub mod Depth
pub mod ReadBack
