pub mod KnownItems
pub mod KnownHeads
pub mod TableLists
pub mod BodyLists
