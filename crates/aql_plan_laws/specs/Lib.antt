pub mod Theorems
pub mod laws
