pub mod Rounds
pub mod Root
pub mod RootSteps
