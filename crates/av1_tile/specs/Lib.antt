pub mod Coder
pub mod Items
pub mod Marks
pub mod TileBytes
pub mod Trials
