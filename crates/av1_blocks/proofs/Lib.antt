pub mod Entries
pub mod GivenBack
pub mod GoingBack
pub mod Places
pub mod Zero
