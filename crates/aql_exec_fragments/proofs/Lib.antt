pub mod Loops
pub mod Families
pub mod Leading
pub mod Pulling
pub mod Gathered
pub mod Delivering
