pub mod Ranges
pub mod Checks
pub mod Faults
pub mod Spans
pub mod Laws
pub mod Examples
