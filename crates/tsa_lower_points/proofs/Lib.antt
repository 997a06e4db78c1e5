pub mod CallCodes
pub mod PointCodesWritten
pub mod PointsRead
