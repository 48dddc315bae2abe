pub mod Places
pub mod Passing
pub mod InOrder
pub mod MeetExits
pub mod NextExits
pub mod Uses
