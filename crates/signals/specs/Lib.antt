pub mod Moves
pub mod Claim
pub mod Before
pub mod Shown
