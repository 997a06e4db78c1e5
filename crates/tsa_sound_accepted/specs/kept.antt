pub mod Visits
pub mod Laws
