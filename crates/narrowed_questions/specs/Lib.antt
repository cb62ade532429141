pub mod NarrowedQuestions
pub mod StateQuestions
