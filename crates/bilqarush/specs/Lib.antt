pub mod Calls
pub mod Answers
pub mod ImageCalls
pub mod Example
pub mod Laws
pub mod Exchange
pub mod Lines
