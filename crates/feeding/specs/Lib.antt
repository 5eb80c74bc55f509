pub mod Told
pub mod Steps
pub mod Begin
pub mod Feeding
pub mod WholeCase
