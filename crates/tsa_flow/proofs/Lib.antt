pub mod Passing
pub mod Room
pub mod Telling
