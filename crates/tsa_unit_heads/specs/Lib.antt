pub mod Near
pub mod Heads
pub mod Openings
