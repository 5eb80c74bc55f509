pub mod State
pub mod Setters
pub mod Frames
pub mod Bytes
pub mod Steps
pub mod Runs
