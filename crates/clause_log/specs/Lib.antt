pub mod Derivations
pub mod Marks
pub mod Members
