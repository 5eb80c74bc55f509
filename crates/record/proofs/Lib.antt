pub mod CodeLaws
pub mod NumberLaws
pub mod PartLaws
pub mod StageLaws
pub mod PeriodLaws
pub mod StampLaws
pub mod WorldLaws
