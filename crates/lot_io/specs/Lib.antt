pub mod Outside
pub mod Memory
pub mod Shelves
pub mod Real
pub mod Texts
pub use Rattle.whole_numbers.specs.Digits
