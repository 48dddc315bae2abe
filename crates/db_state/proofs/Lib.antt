pub mod ViewLookups
pub mod Intersects
pub mod RunLookups
pub mod CoveredPlaces
pub mod LookupExamples
pub mod FoundTables
