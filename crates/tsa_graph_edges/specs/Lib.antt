pub mod Links
pub mod Marks
pub mod OneNumbering
pub mod PointNumbers
pub mod Spots
pub mod Successors
