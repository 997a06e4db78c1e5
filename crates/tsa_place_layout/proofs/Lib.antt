pub mod Tables
pub mod GuardLists
pub mod MemberLists
pub mod Begins
pub mod Evaluating
pub mod WayLists
