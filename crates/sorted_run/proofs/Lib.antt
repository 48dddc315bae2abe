pub mod Passed
pub mod ViewExits
pub mod OverlapExits
pub mod LeadExits
pub mod CoveringExits
