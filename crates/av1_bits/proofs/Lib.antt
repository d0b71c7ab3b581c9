pub mod Moving
pub mod Outcomes
pub mod Signed
pub mod Writing
