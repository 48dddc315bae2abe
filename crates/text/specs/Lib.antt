-- The text of numbers and bytes, and the promises on it.
pub mod Text
pub mod Laws
