pub mod Counts
pub mod Intervals
pub mod Limits
pub mod Sets
pub mod Types
