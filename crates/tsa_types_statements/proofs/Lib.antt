pub mod Closing
pub mod StatementLaws
pub mod StatementRows
