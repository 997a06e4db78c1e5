pub mod Units
pub mod Tables
pub mod Judging
pub mod ItemJudgements
pub use Rattle.tsa_profile_points.specs.Bodies
pub use Rattle.tsa_profile_points.specs.Ways
pub use Rattle.tsa_profile_points.specs.PointAnswers
pub use Rattle.tsa_profile_points.specs.Declarations
