pub mod SizeCalls
pub mod Found
pub mod SizeCallLaws
