pub mod FieldLaws
pub mod LengthLaws
pub mod TimeLaws
