pub mod Trajectory
pub mod Inequalities
pub mod Laws
