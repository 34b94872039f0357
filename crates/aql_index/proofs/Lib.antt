pub mod Rests
pub mod Rising
pub mod MiddlePart
pub mod Built
pub mod Within
pub mod Grouped
pub mod Spread
pub mod Dealt
