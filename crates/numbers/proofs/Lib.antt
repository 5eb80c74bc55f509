pub mod TableLaws
pub mod ChipLaws
