pub mod SomeArrays
pub mod Later
pub mod LaterInStages
pub mod Members
pub mod SomeGroups
