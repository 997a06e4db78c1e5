pub mod UnitLists
pub mod EnumeratorLists
pub mod ItemLists
pub mod Leaving
pub mod Putting
pub mod Rounds
pub mod Fitting
pub mod Examples
