pub mod LeafRows
pub mod HeadLaws
pub mod OpeningLaws
