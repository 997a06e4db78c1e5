pub mod Members
pub mod Functions
pub mod Bodies
pub mod Laws
pub use Rattle.tsa_core_points.specs.Points
