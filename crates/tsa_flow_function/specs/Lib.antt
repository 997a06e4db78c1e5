pub mod Lanes
pub mod Flows
pub mod Numbers
pub mod Claims
pub mod ClaimLanes
pub mod IdlePaths
pub use Rattle.tsa_rules_view.specs.Views
pub use Rattle.tsa_rules_view.specs.declared.content.RuleView
pub use Rattle.tsa_rules_view.specs.Kinds
pub use Rattle.tsa_rules_view.specs.Paths as ProfilePaths
