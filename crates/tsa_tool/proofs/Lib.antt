pub mod CheckExamples
mod PrintedAgain
pub mod Fitting
pub mod OneReport
pub mod TypedLaws
pub mod Writing
pub mod Inputs
pub mod Soundly
pub mod Acceptance
