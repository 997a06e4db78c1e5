pub mod AllItems
pub mod Behind
pub mod ItemLists
pub mod NoOwned
pub mod WholeBodies
pub use Rattle.tsa_profile_context.proofs.EachItem
