pub mod BodyRows
pub mod Examples
pub mod ExpressionRows
pub mod ItemRows
pub mod KeptNodes
pub mod Laws
pub mod Rows
pub mod ShortNodes
