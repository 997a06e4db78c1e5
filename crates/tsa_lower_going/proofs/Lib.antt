pub mod TermReads
pub mod Doings
pub mod Courses
