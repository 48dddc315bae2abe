pub mod Spans
pub mod Asked
pub mod Runs
pub mod Views
