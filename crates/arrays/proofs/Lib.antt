pub mod TestLaws
pub mod ArrayLaws
pub mod ChipLaws
pub mod ByLaws
