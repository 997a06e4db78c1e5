pub mod GlobalJudged
pub mod HeadJudged
pub mod MemberLists
pub mod Sequences
pub use Rattle.tsa_profile_points.proofs.ProfileDeclarationsFirsts as Firsts
pub use Rattle.tsa_profile_points.proofs.EachItem
pub use Rattle.tsa_profile_points.proofs.Failures
