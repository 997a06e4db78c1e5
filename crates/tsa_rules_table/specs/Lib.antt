pub mod Numbers
pub mod Rows
pub mod Notes
pub mod Saying
