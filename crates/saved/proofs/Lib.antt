pub mod ReadingLaws
pub mod RowLaws
pub mod ScanLaws
pub mod KeyLaws
pub mod LoopLaws
pub mod PutLaws
pub mod SizeLaws
pub mod AnswerLaws
