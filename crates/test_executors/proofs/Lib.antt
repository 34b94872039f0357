pub mod Counted
pub mod Indexed
