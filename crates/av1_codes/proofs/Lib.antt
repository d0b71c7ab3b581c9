pub mod SignedRange
pub mod Words
