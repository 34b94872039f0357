pub mod Ledgers
pub mod Found
pub mod Searches
pub mod PendingPaths
pub mod Chosen
pub mod InProgress
pub mod laws
