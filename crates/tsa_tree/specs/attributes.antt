-- Attributes of thread safety.
pub mod Rows
pub mod Syntax
pub mod Spelling
pub mod Beginnings
pub mod Refusals
pub mod Sound
pub mod Answers
pub mod Examples
