pub mod Choices
pub mod Joins
pub mod Optional
pub mod Pieces
pub mod Prefixes
pub mod Sieves
pub mod Signatures
