pub mod Good
pub mod Cases
pub mod Runs
pub mod Complete
pub mod Reach
pub mod Agree
pub mod Exactly
