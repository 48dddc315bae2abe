pub mod Ordered
pub mod Found
