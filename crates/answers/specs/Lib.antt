pub mod Ready
pub mod Answer
pub mod Judged
