pub mod Locks
pub mod Laws
pub mod Sameness
pub mod Examples
pub mod Tables
pub mod TableLocks
pub mod TableStates
