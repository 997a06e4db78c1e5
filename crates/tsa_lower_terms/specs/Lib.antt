pub mod Heads
pub mod Sources
pub mod Codes
pub mod Heights
pub mod Laws
pub mod Examples
