pub mod ExpressionNames
pub mod RowExamples
pub mod RowNames
pub mod StatementNames
pub mod UnitNames
