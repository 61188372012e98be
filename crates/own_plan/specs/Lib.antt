pub mod OwnPeriod
pub mod Made
pub mod Rows
