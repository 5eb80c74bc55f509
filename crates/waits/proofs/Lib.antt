pub mod JumpLaws
pub mod TurnLaws
