pub mod Classes
pub mod Digits
pub mod Names
pub mod Quotes
pub mod Readings
pub mod Runs
pub mod Separators
pub mod Spellings
