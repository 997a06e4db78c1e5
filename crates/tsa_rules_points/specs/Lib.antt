pub mod Points
pub mod Visits
pub mod Marking
pub mod Notes
