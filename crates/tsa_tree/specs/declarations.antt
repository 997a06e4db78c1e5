-- Declarations, and items without a body (C11 6.7).
pub mod Syntax
pub mod Spelling
pub mod ItemSpelling
pub mod Rows
pub mod ItemRows
pub mod Shapes
pub mod Answers
pub mod Plain
pub mod Sound
pub mod Examples
