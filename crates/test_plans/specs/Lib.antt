pub mod NotFalse
pub mod Nowhere
pub mod Sample
