pub mod Actions
pub mod Chains
pub mod Examples
