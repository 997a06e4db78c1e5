pub mod Codes
pub mod PointCodes
pub mod TermLaws
pub mod Examples
