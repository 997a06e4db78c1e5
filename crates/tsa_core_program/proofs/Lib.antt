pub mod Walking
pub mod BodyWalk
pub mod UnitFound
pub mod PointNumbers
pub mod Examples
pub mod BodiesByNumber
