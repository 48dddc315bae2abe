pub mod Pieces
pub mod Lengths
pub mod Lines
pub mod LineExits
pub mod Loops
pub mod WholeListing
pub mod Short
pub mod Rows
