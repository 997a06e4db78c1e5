-- Whole units (C11 6.9).
pub mod Syntax
pub mod Spelling
pub mod Rows
pub mod Answers
pub mod Plain
pub mod Sound
pub mod Examples
pub mod Limits
pub mod Shapes
pub mod WellRead
pub mod SoundLaw
pub mod Functions
pub mod Names
pub mod Spans
pub mod Order
