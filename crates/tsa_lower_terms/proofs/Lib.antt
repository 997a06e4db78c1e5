mod NodeParts
mod Patched
pub mod Expressions
mod Heights
mod WrittenCodes
mod Places
pub mod AnyResult
