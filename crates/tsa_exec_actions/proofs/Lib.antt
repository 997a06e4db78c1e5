pub mod Actions
pub mod Judging
pub mod Chains
pub mod ActionExamples
