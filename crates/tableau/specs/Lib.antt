pub mod TableauStates
pub mod Copies
pub mod Steps
pub mod Questions
pub mod Laws
pub mod Parts
