pub mod Keys
pub mod Sorting
pub mod Subqueries
pub mod laws
pub mod Settings
pub mod GroupStates
pub mod Framed
pub mod Collecting
