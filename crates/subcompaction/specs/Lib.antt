pub mod Anchors
pub mod Boundaries
pub mod PlanCalls
pub mod Tables
pub mod PlanLaws
pub mod PlanExamples
