pub mod Clauses
pub mod Gates
pub mod Arithmetic
pub mod Bounds
pub mod Laws
pub mod Signs
