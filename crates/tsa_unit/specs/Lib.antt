pub mod Parsing
pub mod Names
pub mod Functions
pub mod Items
