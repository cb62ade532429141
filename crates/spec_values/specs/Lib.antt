pub mod FreeTypes
pub mod SmallNumbers
pub mod Laws
