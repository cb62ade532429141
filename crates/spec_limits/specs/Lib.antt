pub mod LimitFaults
pub mod Counting
