pub mod Tables
pub mod CodeTables
pub mod Cuts
