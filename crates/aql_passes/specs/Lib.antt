pub mod AtExprs
pub mod laws
pub mod inner
