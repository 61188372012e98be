pub mod Copied
pub mod Improved
pub use Rattle.own_plan.specs.Made
