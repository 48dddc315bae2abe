pub mod Passed
pub mod SizeExits
pub mod ViewBytes
pub mod SizeCallLaws
