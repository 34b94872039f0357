pub mod Split
pub mod ByNumber
