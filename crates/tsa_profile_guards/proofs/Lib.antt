pub mod Walk
pub mod Operands
pub mod Spans
pub mod NoneFails
pub mod Failures
pub mod Places
