pub mod Form
pub mod Values
pub mod Layouts
pub mod Laws
pub mod Found
pub mod Spans
pub mod There
pub mod Examples
