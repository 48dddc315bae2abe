pub mod Chains
pub mod IdExits
pub mod Sizes
pub mod OutputExits
pub mod ViewExits
pub mod ByGaps
pub mod RunExits
