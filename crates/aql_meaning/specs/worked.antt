pub mod Words
pub mod Expressions
pub mod Clauses
pub mod Traversals
pub mod Refuted
