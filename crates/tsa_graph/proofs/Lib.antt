pub mod EntryLists
pub mod WaysMade
pub mod GraphMade
pub mod Lists
pub mod Paths
pub mod Rounds
mod Members
mod Counts
mod Sizes
mod Standing
mod Leaving
mod Joins
mod InARow
mod RunLists
pub mod FurtherRuns
pub mod FurtherEdges
pub mod Within
