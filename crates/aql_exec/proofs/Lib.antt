pub mod Keeping
pub mod Advancing
pub mod Limited
pub mod Asking
pub mod Answering
pub mod Variables
