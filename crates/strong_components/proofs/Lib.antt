pub mod StrongFacts
pub mod StrongSteps
