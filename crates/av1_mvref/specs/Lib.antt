pub mod Candidates
pub mod Conditions
pub mod ExtraSearch
pub mod Neighbours
pub mod Noted
pub mod References
pub mod Sorted
