pub mod Courses
pub mod Bodies
pub mod BodyCourses
pub mod BodyEntries
pub use Rattle.tsa_rules_bodies.specs.Laws
pub use Rattle.tsa_rules_bodies.specs.Sites
pub use Rattle.tsa_profile_context.specs.Units
