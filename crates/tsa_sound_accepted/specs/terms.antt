pub mod Laws
pub mod PointTerms
pub mod Units
pub mod CallTerms
