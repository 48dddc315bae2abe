pub mod Told
pub mod Lookups
pub mod Sizes
pub mod Laws
pub mod LookupExample
pub mod SizeExample
