pub mod RowExits
pub mod Planning
pub mod Standing
pub mod RowBytes
