pub mod CodableTypes
pub mod Laws
