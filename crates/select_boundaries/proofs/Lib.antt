pub mod AnchorExits
pub mod SelectExits
