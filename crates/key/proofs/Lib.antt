pub mod Linear
pub mod Passed
pub mod Digits
pub mod Words
pub mod KeyOrder
