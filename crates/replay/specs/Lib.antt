pub mod Unwritten
pub mod Recorded
pub mod Counted
