pub mod LateChecks
pub mod Progress
pub mod Answered
pub mod Examples
pub mod RangeExits
pub mod CallExits
