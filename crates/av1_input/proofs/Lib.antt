pub mod Left
pub mod Lists
pub mod Rows
pub mod Texts
