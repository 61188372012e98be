pub use Rattle.own_plan.specs.OwnPeriod
pub mod Made
pub mod Families
pub mod Trials
