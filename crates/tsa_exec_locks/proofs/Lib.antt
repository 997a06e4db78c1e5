pub mod Changes
pub mod Turns
pub mod TurnExamples
