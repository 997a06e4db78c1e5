pub mod Leaves
pub mod Locals
pub mod Loops
pub mod Simple
pub mod Cases
