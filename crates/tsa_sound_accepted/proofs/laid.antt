pub mod Mentions
pub mod FreeGuards
pub mod Guarding
pub mod Laying
