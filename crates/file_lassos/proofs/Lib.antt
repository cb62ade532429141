pub mod Words
pub mod Once
pub mod Plain
pub mod Targets
pub mod FileNames
