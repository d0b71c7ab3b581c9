pub mod Contexts
pub mod Skews
pub mod Steps
