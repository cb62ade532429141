pub mod AllAnswers
pub mod SmallLevels
pub mod Unique
