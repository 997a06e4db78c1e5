pub mod Places
pub mod Standing
pub mod Tables
pub mod Saying
pub mod Steps
pub mod Mentions
pub mod Apart
