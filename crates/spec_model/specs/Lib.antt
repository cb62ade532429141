pub mod Expressions
pub mod Architecture
pub mod FreeRows
pub mod TargetKeys
pub mod Meanings
pub mod Laws
pub mod FreePlaces
pub mod FreeTypes
