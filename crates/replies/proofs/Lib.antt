pub mod ReplyLaws
pub mod LeftoverLaws
