pub mod TermCodes
pub mod PointsOfCode
pub mod CodesWritten
