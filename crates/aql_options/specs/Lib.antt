pub mod Words
pub mod Generated
pub mod laws
