pub mod Shelves
pub mod Scans
pub mod Progress
pub mod CollectionScans
pub mod Lists
pub mod Places
pub mod IndexScans
pub mod laws
