pub mod Findings
pub mod Rows
pub mod Sameness
pub mod Standing
pub mod View
