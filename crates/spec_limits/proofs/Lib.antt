pub mod Sizes
pub mod LimitLemmas
