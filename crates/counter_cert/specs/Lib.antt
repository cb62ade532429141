pub mod Progress
pub mod Certificates
pub mod Laws
pub mod StartClauses
pub mod StepClauses
pub mod Checking
pub mod Pairs
