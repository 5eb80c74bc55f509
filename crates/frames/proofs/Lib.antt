pub mod FrameLaws
pub mod StampLaws
pub mod AloneLaws
