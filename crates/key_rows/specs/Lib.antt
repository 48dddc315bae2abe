pub mod Rows
pub mod Heads
