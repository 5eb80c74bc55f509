pub mod Reading
pub mod Place
pub mod Answer
