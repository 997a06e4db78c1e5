pub use Rattle.tsa_profile_context.specs.Units
pub use Rattle.tsa_profile_context.specs.ItemJudgements
pub use Rattle.tsa_profile_context.specs.Tables
pub use Rattle.tsa_profile_context.specs.Judging
pub use Rattle.tsa_profile_context.specs.Bodies as ProfilePointsBodies
pub use Rattle.tsa_profile_context.specs.Ways
pub use Rattle.tsa_profile_context.specs.Declarations
