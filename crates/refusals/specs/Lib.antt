pub mod Range
pub mod Refusal
pub mod InRange
pub mod Rows
