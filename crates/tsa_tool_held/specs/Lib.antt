pub mod Pieces
pub mod Held
pub mod Pages
pub use Rattle.tsa_warn.specs.OneBody
pub use Rattle.tsa_warn.specs.WarningLines
