pub mod Line
pub mod Request
pub mod Faults
pub mod Print
pub mod Read
pub mod Shown
