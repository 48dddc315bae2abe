pub mod PutExits
pub mod Laws
pub mod Example
