pub mod Field
pub mod Clock
pub mod Hours
pub mod Date
pub mod Time
pub mod Shown
