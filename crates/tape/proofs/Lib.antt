pub mod TapeLaws
pub mod TurnLaws
pub mod PieceLaws
