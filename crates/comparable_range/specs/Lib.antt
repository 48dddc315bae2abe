pub mod Range
pub mod Factors
pub mod Cut
pub mod Laws
