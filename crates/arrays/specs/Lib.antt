pub mod Tests
pub mod Arrays
pub mod Shown
