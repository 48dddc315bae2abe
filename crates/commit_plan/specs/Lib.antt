pub mod Held
pub mod Views
pub mod Runs
pub mod Plans
