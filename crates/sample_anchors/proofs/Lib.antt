pub mod PutExits
pub mod CallExits
