pub mod Lines
pub mod Sending
pub mod FewWords
pub mod Refusals
pub mod Asked
pub mod Numbers
pub mod Sums
