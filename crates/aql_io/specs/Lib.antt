pub mod Causes
pub mod Bytes
pub mod Memory
pub mod Streams
