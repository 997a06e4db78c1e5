pub mod Walks
pub mod Programs
pub mod Laws
pub mod Examples
