pub mod HeldExits
pub mod PieceExits
pub mod ViewExits
pub mod RunExits
pub mod OneExits
pub mod CountExits
pub mod RunsExits
