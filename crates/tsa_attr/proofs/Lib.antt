pub mod Joining
pub mod Openings
pub mod Balancing
pub mod Negatives
pub mod Contents
pub mod Entries
pub mod Groups
pub mod Exact
