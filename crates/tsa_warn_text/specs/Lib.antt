pub mod Orders
pub mod Ranks
pub mod DeclaredNames
pub mod HeldLines
pub mod Lines
