pub mod Commands
pub mod Checks
pub mod Reports
pub mod Runs
pub mod Answer
pub mod Units
pub mod CheckExamples
pub mod PrintedAgain
