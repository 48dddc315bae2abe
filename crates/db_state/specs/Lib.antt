pub mod Places
pub mod Lookup
pub mod LookupCalls
pub mod LookupLaws
pub mod LookupExamples
