pub mod Steps
pub mod Sizes
pub mod Numbers
pub mod NumberLaws
pub mod SizeLaws
pub mod KeyLaws
pub mod Examples
