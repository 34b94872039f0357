pub mod Reading
pub mod Loops
pub mod Leading
pub mod Inputs
pub mod Besides
pub mod Budgets
pub mod Delivering
pub mod Running
