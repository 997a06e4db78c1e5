pub mod Examples
pub mod Answers
pub mod Filling
pub mod GlobalAnswers
