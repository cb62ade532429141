pub mod Lassos
pub mod FirstLassos
pub mod FormulaPorts
pub mod UsedPorts
pub mod Laws
