pub mod Tests
pub mod Every
pub mod BitLaws
pub mod StoreLaws
pub mod WaitLaws
pub mod OverLaws
