-- Expressions (C11 6.5).
pub mod Syntax
pub mod Shapes
pub mod Sound
pub mod Spelling
pub mod Beginnings
pub mod Rows
pub mod Answers
pub mod Laws
pub mod Examples
