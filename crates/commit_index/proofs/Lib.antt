pub mod RunRows
pub mod ImageExits
pub mod RunExits
pub mod SourceExits
