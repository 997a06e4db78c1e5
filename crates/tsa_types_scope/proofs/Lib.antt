pub mod NameLists
pub mod OutsetLaws
