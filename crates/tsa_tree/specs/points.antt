-- Points of bodies.
pub mod Syntax
pub mod Examples
