-- Statements (C11 6.8).
pub mod Syntax
pub mod Spelling
pub mod Rows
pub mod Laws
pub mod Plain
pub mod Sound
pub mod Shapes
pub mod Examples
