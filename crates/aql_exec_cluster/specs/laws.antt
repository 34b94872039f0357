pub mod Fragments
pub mod Locals
pub mod Remotes
pub mod Counts
pub mod Merging
pub mod Places
pub mod Taking
