pub mod Keys
pub mod Lent
