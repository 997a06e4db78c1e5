pub mod Points
pub mod Walks
pub mod Laws
pub mod Stable
pub mod CoreLaws
pub mod Steps
