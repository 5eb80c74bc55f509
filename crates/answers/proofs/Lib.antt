pub mod AnswerLaws
pub mod HeldLaws
pub mod BoundLaws
pub mod JudgedLaws
