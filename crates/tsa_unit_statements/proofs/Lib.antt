pub mod IfRows
pub mod BeginningLaws
pub mod ClosingLaws
pub mod StatementLaws
