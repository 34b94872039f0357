pub mod EdgeSteps
pub mod Lookups
pub mod Running
pub mod Whole
pub mod Transforms
