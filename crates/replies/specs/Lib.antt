pub mod Reply
pub mod Leftover
pub mod Shown
