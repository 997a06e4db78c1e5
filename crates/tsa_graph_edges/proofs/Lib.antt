pub mod CaseLinks
pub mod LabelLists
pub mod PartNumbers
pub mod Putting
pub mod SameControl
pub mod LastFirst
