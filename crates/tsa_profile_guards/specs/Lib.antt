pub mod Accesses
pub mod Failures
pub mod Laws
pub mod Values
