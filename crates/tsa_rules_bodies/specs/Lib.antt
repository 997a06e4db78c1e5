pub mod Sites
pub mod Knowing
pub mod Entering
pub mod Finding
pub mod Laws
pub mod Controls
pub use Rattle.tsa_profile.specs.Paths
pub use Rattle.tsa_profile.specs.Units
