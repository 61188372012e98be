pub mod Construction
pub mod Relief
