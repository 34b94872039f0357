pub mod Rows
pub mod Entries
pub mod Tables
pub mod Columns
pub mod laws
