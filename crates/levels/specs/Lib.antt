pub mod LevelFaults
pub mod LevelQuestions
pub mod Levels
pub mod Rising
pub mod Steps
