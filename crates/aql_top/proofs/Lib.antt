pub mod Loading
pub mod Answering
pub mod Ends
pub mod Once
pub mod Settings
pub mod made
