pub mod Facts
pub mod AcceptedUnits
pub mod SmallLayouts
pub mod TwoTexts
