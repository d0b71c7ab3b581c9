pub mod Draws
pub mod Blocks
pub mod Tree
pub mod Unit
