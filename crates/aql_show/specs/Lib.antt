pub mod Words
pub mod Names
pub mod Lists
pub mod Exprs
pub mod Nodes
pub mod PlanText
pub mod Worked
