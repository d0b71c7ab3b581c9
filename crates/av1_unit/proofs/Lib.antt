mod Before
mod Bits
mod Counts
mod HeaderBytes
mod Headers
mod Heads
mod MessageParts
mod MessageReading
mod ObuLengths
mod Places
mod Scripts
mod TakingApart
mod TileGroups
mod TileLaws
mod TileSizes
mod UnitApart
mod UnitTiles
pub mod Written
