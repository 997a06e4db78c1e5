pub mod Holding
pub mod Takings
pub mod SameLocks
pub mod LockExamples
pub mod TableLocks
pub mod TableStates
