pub mod Feeds
pub mod Filling
pub mod GatherNodes
pub mod laws
