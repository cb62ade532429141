pub mod TableauLassos
pub mod Laws
pub mod Paths
pub mod LeastModels
pub mod Loops
