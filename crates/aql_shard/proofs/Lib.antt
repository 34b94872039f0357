pub mod KnownFits
pub mod Collected
pub mod Places
pub mod Kept
pub mod Dealt
pub mod Searched
