pub mod Differ
pub mod Walk
pub mod Claim
