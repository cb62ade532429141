pub mod Lits
pub mod SetLaws
pub mod StepLaws
pub mod Soundness
