pub mod Ends
pub mod Finished
pub mod Removed
pub mod Settled
