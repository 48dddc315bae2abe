pub mod PlanBytes
pub mod PlanPut
pub mod Ordered
pub mod Walking
pub mod Choosing
