pub mod Acts
pub mod Changes
pub mod Turns
pub mod Laws
pub mod Examples
