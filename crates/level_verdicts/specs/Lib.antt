pub mod Verdicts
pub mod Laws
pub mod Safety
pub mod Steps
