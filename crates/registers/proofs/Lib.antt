pub mod WriteLaws
pub mod StampLaws
pub mod ReadLaws
