pub mod Codes
pub mod States
pub mod Numbers
pub mod Atoms
pub mod Coded
pub mod Reads
pub mod Laws
