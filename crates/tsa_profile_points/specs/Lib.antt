pub mod Bodies
pub mod Ways
pub mod Gathering
pub mod Judging
pub mod Laws
pub mod PointAnswers
pub use Rattle.tsa_profile_declarations.specs.Declarations
