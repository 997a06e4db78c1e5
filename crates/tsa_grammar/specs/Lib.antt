pub mod Form
pub mod Spelling
pub mod Reading
pub mod Exact
