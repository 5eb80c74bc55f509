pub mod NumberLaws
pub mod RangeLaws
pub mod TableLaws
pub mod KeepLaws
pub mod TypeLaws
