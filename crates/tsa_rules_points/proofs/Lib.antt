pub mod Uses
pub mod Begun
pub mod NotedPoints
pub mod Along
pub mod RowSteps
pub mod WrittenTries
