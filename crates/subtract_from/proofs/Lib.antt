pub mod PartExits
pub mod PutExits
pub mod CallExits
pub mod Laws
pub mod Keyless
pub mod Answered
pub mod Examples
