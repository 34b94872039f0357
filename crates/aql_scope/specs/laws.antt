pub mod PlainTakesNothing
pub mod Alike
pub mod Elements
pub mod First
pub mod Named
pub mod PrunesPlain
pub mod Turns
pub mod Walk
