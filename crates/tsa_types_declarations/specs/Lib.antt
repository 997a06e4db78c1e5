pub mod Cells
pub mod Enumerators
