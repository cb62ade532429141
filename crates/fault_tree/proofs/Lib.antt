mod Counts
mod Elements
mod Formed
mod KeepingLaws
pub mod Marking
mod Merging
mod Shortlex
mod TableLaws
