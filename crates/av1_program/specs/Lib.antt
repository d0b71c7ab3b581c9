pub mod Cause
pub mod Run
pub mod Shape
pub mod Status
pub mod Text
pub mod Words
