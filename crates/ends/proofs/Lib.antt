pub mod EndLaws
pub mod LatchLaws
pub mod LeftoverLaws
