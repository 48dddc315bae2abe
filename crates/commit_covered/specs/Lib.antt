pub mod Covered
pub mod Kept
pub mod Runs
