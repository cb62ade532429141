pub mod Tells
pub mod States
pub mod Substituted
pub mod Rows
pub mod Driven
pub mod PortReadings
pub mod Sizing
