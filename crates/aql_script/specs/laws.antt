pub mod Cuts
pub mod LowerFaults
pub mod OfBytes
pub mod Scripts
