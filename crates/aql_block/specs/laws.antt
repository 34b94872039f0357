pub mod Registers
pub mod BlockRows
pub mod Marked
