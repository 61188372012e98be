pub mod Caps
pub mod Growing
pub mod Drafts
pub mod ReadBack
pub mod Resting
pub mod Telling
