pub mod NameSearch
pub mod Texts
pub mod Tokens
pub mod Writes
