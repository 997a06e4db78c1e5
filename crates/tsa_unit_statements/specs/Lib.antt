pub mod Closings
pub mod KeepAnswers
