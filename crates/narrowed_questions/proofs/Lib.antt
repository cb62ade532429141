pub mod Among
pub mod Locals
pub mod AskedQuestions
pub mod StateForms
pub mod LevelReads
pub mod FreeReads
mod Questions
mod Known
mod StateQuestions
