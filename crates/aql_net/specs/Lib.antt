pub mod Logs
pub mod LogText
pub mod Traffic
pub mod Picking
pub mod inner
pub mod laws
