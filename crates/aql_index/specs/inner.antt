pub mod Zones
pub mod Places
pub mod Values
pub mod Numbers
