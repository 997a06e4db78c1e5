pub mod Words
pub mod Calls
pub mod Starts
pub mod Units
pub mod Laws
pub mod Examples
