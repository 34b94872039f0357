pub mod Parts
pub mod Views
pub mod Readers
pub mod Least
pub mod Covering
pub mod Ordering
