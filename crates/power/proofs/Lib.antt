pub mod PowerLaws
pub mod StampLaws
