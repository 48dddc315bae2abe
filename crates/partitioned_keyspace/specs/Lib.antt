pub mod Partitions
pub mod Asked
pub mod Calls
pub mod Halving
pub mod Laws
pub mod KeyPoints
pub mod Examples
