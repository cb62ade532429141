pub mod Answers
pub mod CheckTexts
pub mod AllAnswers
pub mod JudgementTexts
