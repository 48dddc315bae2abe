pub mod ProgressCalls
pub mod Ranges
pub mod ProgressLaws
pub mod ProgressExamples
