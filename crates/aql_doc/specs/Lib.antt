pub mod Keys
pub mod Held
pub mod KeySet
pub mod Meets
pub mod Declarations
pub mod Limits
pub mod Documents
