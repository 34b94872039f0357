pub mod SomeCounting
pub mod SomeMerge
pub mod SomeRest
pub mod Firsts
pub mod Handing
pub mod Counted
pub mod Telling
