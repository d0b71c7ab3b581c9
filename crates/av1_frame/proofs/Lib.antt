pub mod Broken
pub mod Doubling
pub mod Hints
pub mod Ranges
