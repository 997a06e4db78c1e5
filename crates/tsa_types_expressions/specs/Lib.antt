pub mod Lengths
pub mod Found
pub mod Judging
pub mod Locks
pub mod Parts
pub mod Verdicts
pub mod RowParts
pub mod Judgements
