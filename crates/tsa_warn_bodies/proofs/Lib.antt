pub mod Reading
pub mod Limits
pub mod Entering
pub mod Telling
pub mod Stepping
pub mod Firsts
pub use Rattle.tsa_rules_bodies.proofs.SiteLaws
