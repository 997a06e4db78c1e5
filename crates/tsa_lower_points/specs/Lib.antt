pub mod Actions
pub mod Callees
pub mod Examples
pub mod Points
