pub mod Listing
pub mod Spans
pub mod Laws
pub mod Rows
