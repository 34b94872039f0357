pub mod Attributes
pub mod Adding
pub mod Places
