-- Of points.
pub mod Examples
