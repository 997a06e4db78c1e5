pub mod Firsts
pub mod EachArgument
pub mod EachAttribute
pub mod EachItem
pub mod HeadParts
pub mod EachLock
pub use Rattle.tsa_profile_guards.proofs.Failures
pub use Rattle.tsa_profile_guards.proofs.Spans
