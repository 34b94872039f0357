pub mod Ascending
pub mod Firsts
pub mod Identifiers
pub mod Parts
pub mod Shuffles
pub mod Sums
