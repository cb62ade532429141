pub mod Faults
pub mod FirstFaults
pub mod Limits
pub mod Places
pub mod Sites
