pub mod Parses
pub mod Within
pub mod Deeper
pub mod Phrases
pub mod inner
