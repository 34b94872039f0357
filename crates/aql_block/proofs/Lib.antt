pub mod Beside
pub mod Filled
pub mod Found
pub mod Sought
pub mod Steps
pub mod Tabled
pub mod Cut
