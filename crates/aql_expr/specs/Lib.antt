pub mod Numbered
pub mod Paths
