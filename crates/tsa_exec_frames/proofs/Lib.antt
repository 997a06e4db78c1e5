pub mod SkippedInstrs
pub mod FrameTurns
pub mod AnsweredCalls
pub mod TouchedCells
pub mod UnitExamples
pub mod TurnExamples
