pub mod Pieces
pub mod RangeExits
