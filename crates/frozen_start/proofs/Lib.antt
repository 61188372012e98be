pub mod Places
pub mod Parts
pub mod Joining
pub mod RestAfter
pub mod OneRest
pub mod Examples
pub mod Signs
pub mod Owed
