pub mod Holding
pub mod Known
pub mod Sharding
pub mod Parts
pub mod Datasets
pub mod Theorem
pub mod inner
pub mod laws
