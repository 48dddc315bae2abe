pub mod Laws
pub mod LookupExample
pub mod SizeExample
