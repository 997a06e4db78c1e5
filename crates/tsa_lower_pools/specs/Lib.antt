pub mod Needs
pub mod Inside
pub mod Pools
pub mod Units
pub mod Laws
