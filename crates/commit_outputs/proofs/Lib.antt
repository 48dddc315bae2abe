pub mod OutputExits
pub mod PartExits
pub mod PartsExits
