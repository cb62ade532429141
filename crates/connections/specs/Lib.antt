pub mod Drivers
pub mod Forms
pub mod Laws
pub mod LevelFormulas
pub mod PortTables
pub mod Sizes
pub mod Substitution
pub mod Tables
