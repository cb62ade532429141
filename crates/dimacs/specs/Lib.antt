pub mod Dimacs
pub mod DimacsReading
pub mod Laws
pub mod SolverTexts
