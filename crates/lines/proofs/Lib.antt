pub mod FormLaws
pub mod LineLaws
pub mod PrintLaws
pub mod ReadLaws
