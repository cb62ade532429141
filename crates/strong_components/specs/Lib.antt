pub mod Strong
pub mod StrongSearch
