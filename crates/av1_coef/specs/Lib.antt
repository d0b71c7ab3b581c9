pub mod Causal
pub mod Contexts
pub mod Diagonal
pub mod Padded
pub mod Scans
