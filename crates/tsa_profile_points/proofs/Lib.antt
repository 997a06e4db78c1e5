pub mod Gathers
pub mod Limits
pub mod PointPaths
pub mod Judges
pub mod Functions
pub mod CoreCalls
pub mod NodeCalls
pub mod Firsts
pub mod Keeps
pub use Rattle.tsa_profile_declarations.proofs.Firsts as ProfileDeclarationsFirsts
pub use Rattle.tsa_profile_declarations.proofs.Failures
pub use Rattle.tsa_profile_declarations.proofs.EachItem
