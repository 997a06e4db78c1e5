pub mod SimpleLaws
pub mod PointLaws
pub mod LeafLaws
pub mod ConditionLaws
pub mod RowLaws
pub mod ListRows
pub mod PartLaws
pub mod MarkLaws
