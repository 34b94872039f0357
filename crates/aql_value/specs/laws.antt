pub mod Alls
pub mod Falls
pub mod Keyed
pub mod Ranks
pub mod Strict
pub mod Ranges
pub mod Lists
pub mod Kept
