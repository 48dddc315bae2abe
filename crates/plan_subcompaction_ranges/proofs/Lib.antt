pub mod ViewsSampled
pub mod WithViewExits
pub mod WalkExits
pub mod PlannerExits
pub mod PlanCallExits
