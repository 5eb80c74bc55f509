pub mod Act
pub mod Page
