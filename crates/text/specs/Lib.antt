pub mod Bytes
pub mod Buffer
pub mod Decimal
