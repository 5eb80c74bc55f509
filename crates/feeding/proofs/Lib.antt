pub mod WholeLaws
pub mod ToldLaws
pub mod LedgerLaws
pub mod BeginLaws
pub mod FeedLaws
pub mod WholeCaseLaws
