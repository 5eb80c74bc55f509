pub mod Words
pub mod Wait
