pub mod Rows
pub mod Buckets
pub mod EachLaws
pub mod BucketLaws
pub mod Runs
