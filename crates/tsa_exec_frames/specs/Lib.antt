pub mod Frames
pub mod Running
pub mod Deeds
pub mod Turning
pub mod Answering
pub mod Examples
