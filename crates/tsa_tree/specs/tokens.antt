-- What the grammar sees of tokens.
pub mod Signs
pub mod Texts
