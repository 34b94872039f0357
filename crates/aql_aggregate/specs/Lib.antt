pub mod View
pub mod States
pub mod Theorems
pub mod PartialStates
pub mod Joined
pub mod Staged
pub mod laws
