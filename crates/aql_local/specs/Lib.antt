pub mod Building
pub mod Fragments
pub mod inner
