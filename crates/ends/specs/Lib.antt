pub mod Write
pub mod Lock
pub mod End
