pub mod Targets
pub mod Building
pub mod FreeRows
pub mod FreeTargets
pub mod FreeShown
pub mod FreeCount
pub mod FreePlaces
pub mod MadeAgain
