pub mod BytesLaws
pub mod BufferLaws
pub mod DecimalLaws
