pub mod Entries
pub mod Sending
pub mod Delivering
pub mod Worlds
