pub mod Orders
pub mod Comparisons
pub mod Adding
pub mod Failures
pub mod Spots
pub mod Passes
pub mod FailureLaws
pub use Rattle.tsa_flow_function.specs.Views
pub use Rattle.tsa_flow_function.specs.Flows
pub use Rattle.tsa_flow_function.specs.ProfilePaths as Paths
