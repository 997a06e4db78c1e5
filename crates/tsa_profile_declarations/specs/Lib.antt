pub mod Declarations
pub mod Tries
pub use Rattle.tsa_profile_guards.specs.Accesses
