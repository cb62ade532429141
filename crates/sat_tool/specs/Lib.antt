pub mod SatTasks
pub mod SatAnswers
pub mod SatTellings
pub mod SatOutcomes
