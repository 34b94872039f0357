pub mod Names
pub mod Unique
pub mod Joined
pub mod Binding
pub mod Stages
