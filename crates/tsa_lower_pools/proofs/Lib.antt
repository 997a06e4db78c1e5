pub mod PointsOfUnits
pub mod Cases
