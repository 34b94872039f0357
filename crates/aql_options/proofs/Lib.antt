pub mod Lists
pub mod Parsed
