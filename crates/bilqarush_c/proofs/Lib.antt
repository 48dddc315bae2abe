pub mod TellExits
pub mod LookupExits
pub mod SizeExits
