pub mod LocalLaws
pub mod LoopLaws
pub mod SimpleLaws
pub mod CaseLaws
pub mod TargetLaws
pub mod LocalRows
pub mod RowSpans
