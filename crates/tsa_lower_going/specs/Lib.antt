pub mod Going
pub mod Doing
pub mod Examples
