pub mod Puncts
pub mod Quick
pub mod Fronts
