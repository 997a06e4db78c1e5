pub mod Members
pub mod Paths
