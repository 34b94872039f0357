pub mod SomeMerge
pub mod SomeRun
pub mod Paired
