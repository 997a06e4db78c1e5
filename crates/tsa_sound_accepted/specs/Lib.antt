pub mod terms
pub mod laid
pub mod kept
pub mod entered
pub mod called
pub mod Laws
pub mod TwoTexts
