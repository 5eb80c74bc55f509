pub mod InputLaws
pub mod MoveLaws
pub mod StretchLaws
pub mod LoadedLaws
pub mod ActLaws
pub mod PinLaws
pub mod ClaimLaws
pub mod BeforeLaws
