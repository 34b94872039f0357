pub mod Estimate
pub mod Worked
pub mod Passes
pub mod Chosen
pub mod Theorems
pub mod inner
pub mod laws
