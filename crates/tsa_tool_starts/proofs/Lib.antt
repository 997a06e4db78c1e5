pub mod WholeWords
pub mod WordLists
pub mod ArgumentLists
pub mod GoodWords
pub mod Starting
pub mod Examples
