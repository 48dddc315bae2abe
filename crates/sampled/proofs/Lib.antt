pub mod SampleSizes
pub mod GroupExits
pub mod HeldRows
pub mod SampleExits
