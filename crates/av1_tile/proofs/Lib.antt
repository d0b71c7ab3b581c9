mod AllBack
mod Coded
mod Coming
mod Items
mod Marks
mod Neutral
mod Rows
mod Standing
mod Starting
pub mod Surviving
